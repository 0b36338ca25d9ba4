pub mod Alike
pub mod Bare
pub mod Counted
pub mod Verdicts
pub mod Makes
