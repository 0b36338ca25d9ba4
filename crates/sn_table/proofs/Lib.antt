pub mod ApartKeys
pub mod Decoded
pub mod Digits
pub mod NarrowKeys
pub mod NarrowRows
pub mod Places
pub mod RowKeys
pub mod ShortRows
