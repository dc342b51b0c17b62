pub mod Signed
pub mod Words
pub mod Mark
pub mod Entry
