pub mod Recorded
pub mod Walks
pub mod Captures
pub mod Windows
pub mod Counted
pub mod Shares
pub mod Answered
