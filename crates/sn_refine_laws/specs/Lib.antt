pub mod Counts
pub mod Carried
pub mod Carrying
pub mod Masking
pub mod Monotone
pub mod Reported
pub mod Dropping
