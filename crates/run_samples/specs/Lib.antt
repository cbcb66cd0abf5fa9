pub mod Journals
pub mod Pieces
pub mod Pipes
