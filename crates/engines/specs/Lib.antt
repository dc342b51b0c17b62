pub mod Block
pub mod Cipher
