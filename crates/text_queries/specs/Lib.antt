-- Definitions that the contracts of src/ cite.
pub mod Queries
pub mod Views
pub mod Grammar
pub mod Writing
pub mod Printable
pub mod Examples
