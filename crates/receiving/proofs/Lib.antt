pub mod Stored
pub mod Exactly
pub mod History
