pub mod Naming
pub mod Widths
pub mod Walked
pub mod Fronts
pub mod Ranges
