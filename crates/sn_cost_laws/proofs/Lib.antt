pub mod Entries
pub mod Pieces
pub mod Priced
pub mod Fronts
pub mod Seeing
pub mod Plans
