pub mod CycleText
pub mod Forms
pub mod Pieces
pub mod Reason
pub mod RefusalReasons
pub mod PrintRefusals
