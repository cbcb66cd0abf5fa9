pub mod Shared
pub mod Kept
