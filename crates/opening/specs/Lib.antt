pub mod Opener
pub mod Open
pub mod Exactly
pub mod History
