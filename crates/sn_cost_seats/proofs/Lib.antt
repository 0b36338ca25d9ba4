pub mod Blocks
pub mod Going
pub mod Holding
pub mod Marking
pub mod Numbering
pub mod Tallying
