pub mod Fronts
pub mod States
pub mod Streams
