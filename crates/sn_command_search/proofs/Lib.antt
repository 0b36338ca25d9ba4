pub mod Budgets
pub mod Verdicts
pub mod Founds
pub mod Showing
