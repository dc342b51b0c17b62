pub mod Bytes
pub mod Bits
