pub mod Space
pub mod Priced
pub mod Sent
