pub mod Leaves
pub mod Picks
pub mod FoldParts
pub mod BodyParts
pub mod Files
