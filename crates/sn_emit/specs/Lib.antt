pub mod Kinds
pub mod Lanes
pub mod Making
pub mod Plans
pub mod Runs
pub mod Senders
