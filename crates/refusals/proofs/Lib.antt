pub mod CoreItems
pub mod Pieces
pub mod Samples
pub mod Sending
