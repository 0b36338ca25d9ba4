pub mod MergeLemmas
pub mod SinceLemmas
