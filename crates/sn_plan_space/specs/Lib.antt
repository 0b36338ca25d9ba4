pub mod Known
pub mod Made
pub mod Positions
pub mod Readable
pub mod Reading
pub mod Totals
