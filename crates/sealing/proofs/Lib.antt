pub mod Answers
pub mod Record
