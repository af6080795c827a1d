pub mod Lists
pub mod ListNumbering
pub mod Tables
