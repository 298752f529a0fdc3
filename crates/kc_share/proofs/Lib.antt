pub mod Views
pub mod Steps
pub mod Sharing
pub mod Comparing
pub mod Rows
