pub mod RisingLemmas
pub mod WindowLemmas
pub mod GatherLemmas
pub mod StreamLemmas
pub mod TurnLemmas
pub mod StandLemmas
pub mod AnsweredLemmas
pub mod UnstoppedLemmas
