pub mod Seats
pub mod Marks
pub mod Tallies
pub mod Ways
