pub mod LiveLemmas
pub mod Inversions
pub mod CaptureLemmas
pub mod TrainLemmas
pub mod HeadlineLemmas
pub mod WorkLemmas
pub mod ReachLemmas
pub mod PrintLemmas
