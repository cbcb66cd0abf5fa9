mod Apart
mod Calls
pub mod Steps
pub mod Plans
