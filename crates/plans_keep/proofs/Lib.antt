pub mod Plans
pub mod SmallScans
pub mod Steps
