pub mod KeySums
pub mod Places
pub mod Pushing
pub mod Written
