pub mod Moved
pub mod Swaps
