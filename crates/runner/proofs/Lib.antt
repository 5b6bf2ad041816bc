pub mod GatheredCode
pub mod Promise
pub mod PointCount
