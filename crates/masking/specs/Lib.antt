pub mod Shares
pub mod Sbox
pub mod Stages
pub mod Call
pub mod OneTape
