pub mod Cuts
pub mod DigitSteps
