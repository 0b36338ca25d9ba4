pub mod Telling
pub mod Schedules
pub mod Picking
pub mod Turns
pub mod Lines
pub mod Lanes
pub mod Plain
