pub mod RunLine
pub mod BoundLine
