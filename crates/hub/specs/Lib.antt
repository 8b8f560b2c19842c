pub mod Objections
pub mod Serving
pub mod Session
