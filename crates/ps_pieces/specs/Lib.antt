pub mod Operations
pub mod Computed
pub mod Shown
