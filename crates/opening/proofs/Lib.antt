pub mod Openable
pub mod Exactly
pub mod History
