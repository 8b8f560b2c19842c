pub mod Table
pub mod Programs
