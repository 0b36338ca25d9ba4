pub mod Leaves
pub mod PlanChunks
pub mod PlanMarks
pub mod Plans
pub mod Rewritten
pub mod Readings
