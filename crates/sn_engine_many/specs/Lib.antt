pub mod Shorts
pub mod Frames
pub mod Switches
pub mod Answers
pub mod Phases
