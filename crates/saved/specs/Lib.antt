pub mod States
pub mod Numbers
