pub mod Copied
pub mod Fronts
pub mod Headers
pub mod Known
pub mod Progress
pub mod Reader
pub mod Refusals
pub mod Rows
