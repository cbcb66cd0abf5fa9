pub mod Held
pub mod Queries
pub mod Readers
