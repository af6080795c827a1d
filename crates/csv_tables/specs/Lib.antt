pub mod Faults
pub mod Fields
pub mod PlainTables
pub mod RecordsLeft
pub mod Tables
pub mod Texts
