pub mod Adding
pub mod Digits
pub mod Distinct
pub mod Pairing
pub mod Taken
pub mod Forming
