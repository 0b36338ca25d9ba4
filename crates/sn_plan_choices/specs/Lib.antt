pub mod Costs
pub mod Options
pub mod Places
pub mod Planning
pub mod Settings
pub mod Within
