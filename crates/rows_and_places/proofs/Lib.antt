pub mod PlacedPoints
pub mod RowsAndPlaces
pub mod ReadLine
