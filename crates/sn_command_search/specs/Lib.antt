pub mod Certificates
pub mod Shown
