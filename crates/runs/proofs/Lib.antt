pub mod Run
pub mod OneTape
pub mod Lanes
pub mod Reported
