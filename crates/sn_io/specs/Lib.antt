pub mod Counts
pub mod Entries
pub mod Inputs
pub mod Known
pub mod MemInputs
pub mod MemSink
