pub mod Priced
pub mod Kept
pub mod Dear
pub mod Bounds
