pub mod Means
