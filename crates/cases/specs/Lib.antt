pub mod Stacks
pub mod Worked
pub mod Triggers
pub mod Answers
