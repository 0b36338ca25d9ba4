pub mod Held
pub mod Levels
pub mod Paths
pub mod Places
pub mod Windows
