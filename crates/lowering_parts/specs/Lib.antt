pub mod Gathered
pub mod Operations
pub mod Places
pub mod Reads
