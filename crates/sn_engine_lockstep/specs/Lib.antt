pub mod Sources
pub mod Work
pub mod Windows
pub mod Early
pub mod Known
pub mod Driving
