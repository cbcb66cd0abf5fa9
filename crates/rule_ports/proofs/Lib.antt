pub mod Plain
pub mod Calls
pub mod Steps
pub mod Plans
