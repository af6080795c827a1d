pub mod Row
pub mod UnionRow
