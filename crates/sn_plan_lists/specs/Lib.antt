pub mod Bounds
pub mod Chosen
pub mod Costs
pub mod Numbers
pub mod Theorems
