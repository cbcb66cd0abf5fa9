pub mod PhysicalPlans
pub mod Worked
