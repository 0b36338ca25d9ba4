mod Bits
mod Counting
mod Folding
mod Grouping
pub mod Keeping
pub mod Places
mod Regrouping
mod Renumbering
pub mod Repeating
mod Seating
mod Smaller
mod Weighing
