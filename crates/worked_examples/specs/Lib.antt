pub mod Lowering
pub mod Tables
