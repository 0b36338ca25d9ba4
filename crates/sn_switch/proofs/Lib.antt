pub mod Leaves
pub mod Switches
pub mod Readings
