pub mod Frames
pub mod Heads
pub mod Lacking
pub mod Taking
