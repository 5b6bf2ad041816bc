pub mod LineOrder
