pub mod Accepted
pub mod Computed
pub mod Fit
