pub mod ChainTrees
pub mod SampleTrees
