mod Rings
mod MarkLemmas
pub mod Zips
mod Named
mod Both
mod Facts
mod Closing
mod Changes
mod Reading
mod Makings
pub mod ReadOuts
pub mod Adds
pub mod Lawful
pub mod PlanAnswers
pub mod PlanSchedules
pub mod Settling
