pub mod MadeLemmas
pub mod SummingLemmas
pub mod JobLemmas
pub mod FileLemmas
pub mod OverLemmas
pub mod GenLemmas
