pub mod Readable
pub mod Tested
