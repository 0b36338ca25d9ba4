pub mod Taken
pub mod Standings
pub mod Reported
pub mod Finish
pub mod Whole
