pub mod Counts
pub mod Queues
pub mod Rests
pub mod RootPlaces
