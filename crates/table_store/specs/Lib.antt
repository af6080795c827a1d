pub mod Fields
pub mod StoredTables
pub mod Tables
pub mod Values
