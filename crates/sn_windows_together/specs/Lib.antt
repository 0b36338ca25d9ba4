pub mod Since
pub mod Together
pub mod Merging
pub mod Laws
