pub mod Calls
pub mod Further
pub mod Keyed
pub mod Groups
pub mod Distincts
pub mod Joins
pub mod Steps
