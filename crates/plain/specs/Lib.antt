pub mod Plain
pub mod Entry
