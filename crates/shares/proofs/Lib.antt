pub mod Packed
pub mod Onward
