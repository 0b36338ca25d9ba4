pub mod SeveralLemmas
pub mod GiveLemmas
pub mod RiseLemmas
pub mod WindowLemmas
