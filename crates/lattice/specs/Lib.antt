pub mod Meaning
pub mod Order
pub mod Widths
