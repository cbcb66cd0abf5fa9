pub mod Json
pub mod Words
pub mod Tables
pub mod Columns
pub mod Expressions
pub mod Nodes
pub mod Document
pub mod Found
