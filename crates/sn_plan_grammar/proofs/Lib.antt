pub mod Goods
pub mod Starts
pub mod Bounded
pub mod Counts
pub mod TreeGoods
pub mod TreeStarts
pub mod TreeBounded
