pub mod PlanPrices
