pub mod RangeLemmas
mod RestLemmas
mod ReportedLemmas
mod StepLemmas
