pub mod Causes
pub mod Columns
pub mod Steps
pub mod Sources
