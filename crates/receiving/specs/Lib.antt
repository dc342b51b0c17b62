pub mod Stored
pub mod Calls
pub mod History
