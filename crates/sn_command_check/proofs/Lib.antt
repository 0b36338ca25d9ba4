pub mod Verdicts
pub mod CheckLemmas
pub mod Stopping
pub mod Leasts
pub mod Saying
pub mod Judging
pub mod Steps
pub mod NoPrices
