pub mod Answers
pub mod Lane
