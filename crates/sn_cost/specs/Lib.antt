pub mod Entries
pub mod Adding
pub mod Training
