pub mod Picks
pub mod Shows
pub mod Readings
pub mod Lines
pub mod Chunks
pub mod Rewritten
