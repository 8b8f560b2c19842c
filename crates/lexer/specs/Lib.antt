pub mod Numbers
pub mod Tokens
pub mod Fields
pub mod Reading
