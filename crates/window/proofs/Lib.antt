pub mod Word
pub mod Admits
pub mod History
