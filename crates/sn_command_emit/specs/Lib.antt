pub mod Sent
pub mod Causal
pub mod Reporting
pub mod Emit
