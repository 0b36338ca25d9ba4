pub mod Counts
pub mod Firsts
pub mod Largest
pub mod Marks
pub mod Numbered
pub mod Places
pub mod Renumbered
pub mod Weighed
