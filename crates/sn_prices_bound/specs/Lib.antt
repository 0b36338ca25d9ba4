pub mod Few
pub mod Walks
