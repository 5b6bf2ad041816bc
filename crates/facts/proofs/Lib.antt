pub mod Sums
pub mod PossibleRanges
