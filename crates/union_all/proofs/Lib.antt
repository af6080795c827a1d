pub mod Begun
pub mod Branches
pub mod Compared
pub mod Heads
pub mod Rankings
pub mod Sooner
pub mod Stepping
pub mod Texts
