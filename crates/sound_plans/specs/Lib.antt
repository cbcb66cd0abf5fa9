pub mod Fit
pub mod Named
pub mod Read
pub mod Tested
