pub mod Counting
pub mod Resting
pub mod Parting
