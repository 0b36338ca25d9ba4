pub mod Passes
pub mod Refined
pub mod Steps
