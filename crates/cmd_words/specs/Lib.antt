pub mod Arguments
pub mod CommandNames
pub mod Commands
pub mod NamedPairs
pub mod Numbers
pub mod Pairs
pub mod ArgumentMeaning
pub mod TakenRules
