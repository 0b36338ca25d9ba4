pub mod After
pub mod Priced
pub mod Made
