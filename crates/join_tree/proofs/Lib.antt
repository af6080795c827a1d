pub mod AnyOrder
pub mod Exchange
pub mod FromRemoval
pub mod FromTree
pub mod Hanging
pub mod Renumbering
pub mod Runs
