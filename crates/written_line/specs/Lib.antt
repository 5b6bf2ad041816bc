pub mod Columns
pub mod Cleared
