pub mod Growing
pub mod Running
pub mod Bits
pub mod Installed
pub mod Few
pub mod Fees
pub mod Seeing
pub mod LastLevel
pub mod Totals
pub mod Trained
pub mod Paths
pub mod Bounded
pub mod Built
pub mod Counting
pub mod Nothing
mod Packing
