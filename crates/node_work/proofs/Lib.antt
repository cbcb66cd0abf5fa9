mod Copied
pub mod Fit
mod Together
