pub mod Ends
pub mod OpenCursors
pub mod SessionCosts
pub mod SessionListing
pub mod SessionRules
pub mod TakenSteps
pub mod UnionSteps
