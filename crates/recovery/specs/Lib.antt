pub mod Names
pub mod Left
