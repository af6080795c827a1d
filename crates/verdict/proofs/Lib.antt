pub mod One
pub mod Staging
pub mod Structure
pub mod Complete
pub mod Whole
pub mod Printed
pub mod Steps
