pub mod Choices
pub mod Faults
pub mod Changed
pub mod Whole
pub mod Holding
