pub mod Stream
pub mod Seen
