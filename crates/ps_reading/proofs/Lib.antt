pub mod Digits
pub mod Grown
pub mod Numerals
pub mod Rules
