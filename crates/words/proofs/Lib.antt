pub mod Words
pub mod Moves
pub mod Turned
pub mod Constants
