pub mod Sealed
pub mod Answers
