pub mod Operands
pub mod Refused
