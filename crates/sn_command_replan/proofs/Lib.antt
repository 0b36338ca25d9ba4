pub mod StandingLemmas
pub mod BlockLemmas
pub mod PlannedLemmas
pub mod WorkLemmas
pub mod ReplanLemmas
pub mod OneLemmas
