pub mod Options
pub mod Same
