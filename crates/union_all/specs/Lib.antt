pub mod Firsts
pub mod Merge
pub mod Rows
