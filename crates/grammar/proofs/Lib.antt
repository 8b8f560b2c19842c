pub mod Numerals
pub mod Spelling
pub mod Fieldwise
pub mod Rowwise
pub mod Linewise
pub mod Statements
