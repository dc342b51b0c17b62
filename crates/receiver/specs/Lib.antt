pub mod Receivers
pub mod Says
