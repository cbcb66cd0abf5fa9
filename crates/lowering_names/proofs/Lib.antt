pub mod Keeping
pub mod Calling
pub mod Stepping
pub mod Ruled
