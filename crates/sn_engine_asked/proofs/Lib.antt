pub mod Heard
pub mod Hearing
pub mod Levels
pub mod Answered
