pub mod Entries
pub mod Inputs
pub mod Plans
pub mod Graph
pub mod Refusals
pub mod PlanMeanings
pub mod Lowering
