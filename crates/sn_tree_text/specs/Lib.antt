pub mod Places
pub mod Texts
pub mod Printing
pub mod Fronts
pub mod Counting
