pub mod DrawLemmas
pub mod LengthLemmas
