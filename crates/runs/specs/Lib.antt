pub mod Run
pub mod Lanes
pub mod Reported
