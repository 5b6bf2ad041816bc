pub mod Runs
pub mod Promise
