pub mod Keying
pub mod Widths
pub mod Record
pub mod Fields
