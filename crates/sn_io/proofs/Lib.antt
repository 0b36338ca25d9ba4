pub mod CountLemmas
pub mod FileLemmas
pub mod PutLemmas
pub mod Raised
pub mod Reported
pub mod Updates
