pub mod Training
pub mod Collecting
pub mod Taking
