pub mod Limits
pub mod Least
