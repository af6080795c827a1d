pub mod FirstSums
pub mod RecordWriters
pub mod StyleView
pub mod WrittenRecords
