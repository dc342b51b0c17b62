pub mod Taken
pub mod Chunks
