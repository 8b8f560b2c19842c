pub mod Trigs
