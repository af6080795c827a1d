pub mod LinkTable
pub mod NumberedLists
