pub mod Settling
pub mod Sharing
pub mod Holding
pub mod Going
pub mod Together
pub mod Unsplit
pub mod Orders
pub mod Counting
pub mod Branching
pub mod OneRow
pub mod Arrivals
pub mod Ahead
pub mod Parts
pub mod Alike
pub mod Standing
pub mod Shapes
mod Weighing
mod Remaking
