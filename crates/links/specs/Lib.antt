pub mod Links
pub mod Record
