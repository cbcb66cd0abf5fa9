pub mod KeptRows
pub mod Subsets
pub mod GroupTables
pub mod Statistics
pub mod Reductions
pub mod Grouped
pub mod Errors
