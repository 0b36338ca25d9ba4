pub mod NumberLemmas
pub mod TrainingLemmas
pub mod CollectLemmas
pub mod MovedLemmas
pub mod TakeLemmas
pub mod ReadLemmas
