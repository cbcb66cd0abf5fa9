pub mod Pigeons
pub mod Few
pub mod Paid
pub mod Halted
