pub mod NoFalse
pub mod Stepping
pub mod StayLemmas
pub mod LookLemmas
pub mod OneList
