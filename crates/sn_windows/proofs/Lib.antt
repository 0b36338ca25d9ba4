pub mod RunLemmas
pub mod NumberLemmas
pub mod CountLemmas
pub mod EndLemmas
