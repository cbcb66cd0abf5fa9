pub mod Broken
pub mod Columns
pub mod Exact
pub mod Parts
