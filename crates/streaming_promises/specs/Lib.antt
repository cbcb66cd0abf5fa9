pub mod Kept
pub mod Examples
