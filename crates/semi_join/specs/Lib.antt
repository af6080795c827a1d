pub mod GroupedTrees
pub mod ReducedTrees
pub mod Reduction
