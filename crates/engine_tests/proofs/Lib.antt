pub mod Held
pub mod SmallTies
pub mod SmallTree
