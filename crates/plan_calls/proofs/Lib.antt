pub mod Begun
pub mod Come
pub mod Further
pub mod Induction
pub mod Keeps
pub mod Parts
pub mod Stood
