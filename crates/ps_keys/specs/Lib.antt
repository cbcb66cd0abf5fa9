pub mod Numbering
pub mod Hashes
pub mod Chains
pub mod RowOrder
pub mod Ordered
pub mod Tables
pub mod Codes
pub mod KeyRows
