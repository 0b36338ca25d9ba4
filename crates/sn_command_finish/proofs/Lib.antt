pub mod PartLemmas
pub mod FrameLemmas
pub mod ReportLemmas
pub mod TurnLemmas
pub mod LaneLemmas
pub mod WholeLemmas
pub mod FinishLemmas
