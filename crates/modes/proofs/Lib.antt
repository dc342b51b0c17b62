pub mod Pieces
pub mod Ctr
pub mod Stream
pub mod Doubled
pub mod Cmac
pub mod Written
