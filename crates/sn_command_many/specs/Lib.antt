pub mod Together
pub mod Several
pub mod Joining
pub mod Giving
