pub mod TwistLemmas
