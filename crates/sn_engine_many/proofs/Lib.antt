mod Cutting
mod Plans
mod Sent
mod Taking
mod Ending
mod Answered
mod Switching
pub mod Seen
mod Along
