pub mod Pipes
pub mod Rooms
pub mod Nodes
pub mod Pieces
pub mod Givers
pub mod Sums
pub mod Flight
pub mod Spent
