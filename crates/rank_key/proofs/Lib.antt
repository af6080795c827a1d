pub mod BitLemmas
pub mod Comparing
pub mod HeldKeys
pub mod KeyOrder
pub mod KeyParts
pub mod Padding
pub mod Places
pub mod RowKeys
mod Adding
mod RowNumbers
mod WideAdding
mod WideOrder
mod WideRows
