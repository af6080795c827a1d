pub mod Records
pub mod Verifying
