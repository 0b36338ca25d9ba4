mod Owing
mod Listing
pub mod Running
mod After
mod BitLemmas
mod Found
mod Noting
pub mod PickLemmas
pub mod TurnLemmas
pub mod CloseLemmas
pub mod LineLemmas
pub mod PipeLemmas
pub mod StateLemmas
pub mod MadeLemmas
