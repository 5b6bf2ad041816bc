pub mod RowEdges
pub mod TargetMarks
pub mod CoveredPoints
