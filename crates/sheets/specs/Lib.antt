pub mod Layout
pub mod Lists
pub mod Rows
