pub mod FourBytes
pub mod FieldColumns
pub mod Shapes
pub mod KeptShapes
