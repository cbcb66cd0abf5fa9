pub mod Slices
pub mod Reductions
pub mod Groups
pub mod Distinct
pub mod Joins
pub mod Nodes
pub mod Plans
pub mod Worked
