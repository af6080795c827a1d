pub mod BestRanking
pub mod Orders
pub mod Progress
pub mod SolvedTrees
