pub mod InWord
