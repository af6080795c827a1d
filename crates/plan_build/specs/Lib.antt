pub mod Faults
pub mod Making
pub mod Plan
pub mod Plans
pub mod RankedPlan
