pub mod Goods
pub mod Wholes
pub mod Starts
pub mod Bounded
