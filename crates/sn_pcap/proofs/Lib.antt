pub mod Fronts
pub mod HeadLemmas
pub mod Holding
pub mod LeftLemmas
pub mod OneCapture
pub mod Pieces
pub mod Shorts
pub mod ReportedLemmas
