pub mod Detected
pub mod Detects
pub mod Watching
