pub mod Checks
pub mod Columns
pub mod Entries
pub mod Errors
pub mod Fit
pub mod Nodes
