pub mod Again
pub mod Layout
pub mod Printing
