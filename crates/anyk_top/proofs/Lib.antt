pub mod Bounds
pub mod Ends
pub mod Prepared
pub mod UnionRun
pub mod EarlyPlans
pub mod PlanList
pub mod Answering
