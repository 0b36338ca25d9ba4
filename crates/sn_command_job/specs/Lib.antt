pub mod Made
pub mod Summary
pub mod Summing
pub mod Job
pub mod Gen
