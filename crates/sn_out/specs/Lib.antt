pub mod Text
pub mod Records
