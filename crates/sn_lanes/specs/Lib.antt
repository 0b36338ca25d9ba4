pub mod Columns
pub mod Lanes
pub mod Words
