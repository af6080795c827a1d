pub mod Heads
pub mod History
pub mod Known
pub mod Parts
