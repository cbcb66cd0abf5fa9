pub mod Kept
pub mod Small
