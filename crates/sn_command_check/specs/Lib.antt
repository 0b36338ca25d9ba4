pub mod PlanTrees
pub mod Shown
pub mod Check
pub mod Least
