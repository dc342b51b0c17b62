pub mod Numbered
pub mod Job
pub mod Sealed
pub mod Plain
pub mod Entry
pub mod Demand
pub mod Used
