pub mod Columns
pub mod Faults
pub mod Names
pub mod Walk
pub mod Widths
