pub mod Captures
pub mod Live
pub mod Headline
