pub mod Real
pub mod Replayed
pub mod Calls
pub mod Cuts
pub mod Events
pub mod TracedHeadline
pub mod Written
