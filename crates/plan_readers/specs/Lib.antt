pub mod Ordered
pub mod Readers
