pub mod FirstRefusal
pub mod Owed
