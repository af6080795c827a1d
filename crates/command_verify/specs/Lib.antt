pub mod Verifications
