pub mod Fields
pub mod Headers
pub mod Tuples
pub mod Parts
pub mod Held
