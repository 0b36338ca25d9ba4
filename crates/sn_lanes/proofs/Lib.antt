pub mod LaneLemmas
pub mod LowLemmas
pub mod MaskLemmas
pub mod MixLemmas
pub mod PrimeLemmas
pub mod RowLemmas
