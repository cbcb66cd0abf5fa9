pub mod Known
pub mod InPlans
pub mod Collected
