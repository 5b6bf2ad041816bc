pub mod RowWrites
