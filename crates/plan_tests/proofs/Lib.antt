pub mod ChainTree
pub mod Held
pub mod SampleFacts
