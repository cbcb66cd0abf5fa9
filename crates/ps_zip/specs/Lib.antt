pub mod Inputs
pub mod Zips
