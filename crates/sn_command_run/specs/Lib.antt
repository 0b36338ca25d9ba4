pub mod Planned
pub mod Along
pub mod Causal
pub mod Run
pub mod TraceWording
pub mod TraceWatching
pub mod TraceCausal
