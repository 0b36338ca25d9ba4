pub mod Goods
pub mod Starts
pub mod Bounded
pub mod Counts
