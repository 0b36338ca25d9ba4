pub mod Trained
pub mod Windows
