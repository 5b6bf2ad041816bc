pub mod RowLines
pub mod KeptRows
