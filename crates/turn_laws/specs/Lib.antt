pub mod Updating
pub mod Examples
