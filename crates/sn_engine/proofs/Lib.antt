pub mod Columns
pub mod Counts
pub mod Drops
pub mod Ends
pub mod FewColumns
pub mod Firsts
pub mod Frames
pub mod Lanes
pub mod Lefts
pub mod OfKinds
mod Moves
pub mod Orders
pub mod FitLemmas
pub mod Steps
pub mod Turns
pub mod SpanLemmas
