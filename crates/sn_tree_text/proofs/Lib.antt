pub mod Picks
pub mod Fronts
pub mod Places
pub mod Trees
pub mod Readings
pub mod Chunks
pub mod Rewritten
