pub mod Settings
pub mod Grammar
pub mod Wholes
