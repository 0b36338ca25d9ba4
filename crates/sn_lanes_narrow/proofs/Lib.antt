pub mod BlockLemmas
pub mod LaneLemmas
pub mod MarkLemmas
