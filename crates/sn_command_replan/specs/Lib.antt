pub mod Searched
pub mod Replan
pub mod Late
pub mod Causal
pub mod Standing
pub mod Working
