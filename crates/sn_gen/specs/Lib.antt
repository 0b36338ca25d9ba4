pub mod Generated
pub mod Job
