pub mod Exprs
pub mod Reductions
pub mod Kept
pub mod Cutting
pub mod Plain
pub mod Updating
pub mod Seen
