pub mod States
pub mod Meets
