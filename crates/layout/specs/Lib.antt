pub mod Layout
pub mod Kind
pub mod Keying
pub mod Keyed
