pub mod CountLaw
pub mod EmitLaw
pub mod LaneLaw
pub mod PlanFacts
pub mod PlanLanes
pub mod Unread
