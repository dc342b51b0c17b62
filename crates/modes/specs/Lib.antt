pub mod Ctr
pub mod Cmac
pub mod Doubling
