pub mod Members
pub mod Ends
pub mod Changes
pub mod Turns
pub mod Rest
pub mod Passes
