pub mod Folds
pub mod WalkLemmas
