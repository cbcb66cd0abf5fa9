mod Alike
mod Existing
pub mod Staying
pub mod Selecting
