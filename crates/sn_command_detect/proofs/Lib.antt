pub mod DetectLemmas
pub mod WatchLemmas
pub mod EntryLemmas
pub mod LawLemmas
pub mod MakingLemmas
