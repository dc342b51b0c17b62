pub mod Window
pub mod History
