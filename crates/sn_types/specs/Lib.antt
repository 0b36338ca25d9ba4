pub mod Cuts
pub mod Kinds
pub mod Places
pub mod Typed
pub mod Typing
pub mod Values
pub mod WellFormed
