pub mod Columns
pub mod Links
pub mod Nodes
pub mod PartialTrees
pub mod RowSources
pub mod Rows
pub mod Shapes
pub mod Sources
