mod Loaded
mod Shaped
pub mod Accepted
mod Single
mod UnionLoaded
pub mod UnionAccepted
