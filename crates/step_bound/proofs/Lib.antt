pub mod JudgedBound
pub mod Rank
pub mod CoveredEdges
pub mod RankFalls
pub mod BoundHolds
