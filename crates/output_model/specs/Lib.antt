pub mod Session
pub mod SessionCalls
pub mod SessionPieces
pub mod Summary
