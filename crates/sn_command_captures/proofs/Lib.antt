pub mod AnswerLemmas
pub mod CaptureLemmas
pub mod CountLemmas
pub mod WalkLemmas
