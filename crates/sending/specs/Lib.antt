pub mod Stored
pub mod Calls
pub mod Demand
