pub mod Parts
pub mod Lengths
pub mod Nodes
pub mod Calls
pub mod Rules
pub mod Sizes
