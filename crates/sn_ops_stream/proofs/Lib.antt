pub mod BranchLemmas
pub mod FrontLemmas
pub mod QueryLemmas
pub mod StreamLemmas
