pub mod StartedEngines
pub mod CommandLine
pub mod Endings
pub mod Plans
pub mod OutputPrinting
pub mod Answering
