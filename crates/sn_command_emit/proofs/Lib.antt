pub mod FlowLemmas
pub mod PieceLemmas
pub mod KeptLemmas
pub mod LanesLemmas
pub mod DriverLemmas
pub mod StateLemmas
pub mod EmitLemmas
