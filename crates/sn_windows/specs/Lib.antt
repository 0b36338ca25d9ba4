pub mod Windows
pub mod Numbering
pub mod NumberingOf
pub mod Blocks
pub mod Laws
pub mod Rising
