pub mod Calls
pub mod Covered
pub mod Lowered
pub mod Parts
pub mod Stored
