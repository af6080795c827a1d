pub mod AskedKind
pub mod AskedList
pub mod BestKey
pub mod Engines
