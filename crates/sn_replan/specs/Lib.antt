pub mod Resting
pub mod Running
pub mod Epochs
