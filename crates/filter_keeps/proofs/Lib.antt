pub mod Masks
pub mod Filters
