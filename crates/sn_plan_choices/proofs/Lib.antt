pub mod Easy
pub mod EntryPlaces
pub mod Loads
pub mod Narrow
pub mod OptionLists
pub mod Planning
