pub mod LinkBytes
pub mod Keying
pub mod SaidKeyed
pub mod Kind
