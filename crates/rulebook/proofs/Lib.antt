pub mod Firsts
pub mod Judges
pub mod Rows
pub mod Facts
