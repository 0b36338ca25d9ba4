pub mod Wording
pub mod Unstopped
pub mod Capture
pub mod Gathering
pub mod Stopping
