pub mod Fields
pub mod Kinds
pub mod ReadBack
pub mod Heads
pub mod Entries
pub mod Instructions
pub mod Inverses
