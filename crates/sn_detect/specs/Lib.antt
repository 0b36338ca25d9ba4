pub mod Looks
pub mod Keeping
pub mod Stays
pub mod Finding
