pub mod Ascending
pub mod Members
pub mod Unique
pub mod Sorting
pub mod Searching
