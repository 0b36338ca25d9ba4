pub mod HeldEntries
pub mod HeldKeys
pub mod Narrow
pub mod States
