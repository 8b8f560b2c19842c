pub mod Printed
pub mod Programs
