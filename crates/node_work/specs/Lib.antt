pub mod Stored
pub mod Working
pub mod Tasks
