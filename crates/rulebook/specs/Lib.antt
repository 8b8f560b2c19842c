pub mod Refusals
pub mod Programs
pub mod Rules
pub mod Judgement
pub mod Sound
