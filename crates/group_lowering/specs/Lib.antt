pub mod Groups
pub mod Distincts
