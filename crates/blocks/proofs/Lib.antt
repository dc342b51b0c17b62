pub mod Xor
pub mod ByBits
pub mod Numbers
pub mod Parts
pub mod Same
pub mod Written
pub mod ByBytes
pub mod Arrays
