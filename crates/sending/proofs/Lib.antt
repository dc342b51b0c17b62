pub mod Stored
pub mod Accepted
pub mod Total
pub mod Right
pub mod ProbeProof
