pub mod WordRows
