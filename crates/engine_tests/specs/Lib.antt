pub mod SmallNodes
