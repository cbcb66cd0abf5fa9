pub mod Members
pub mod Lengths
pub mod Picking
pub mod Keyed
pub mod Fronts
