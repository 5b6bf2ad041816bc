pub mod Sizes
pub mod Bounds
