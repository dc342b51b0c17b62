pub mod Walk
pub mod Tested
