pub mod Accepted
pub mod Bound
pub mod Chain
pub mod ChainTree
pub mod Parsed
pub mod Records
pub mod Shaped
pub mod Weights
