pub mod SoundShapes
pub mod Read
pub mod Wires
pub mod Keyed
pub mod Orders
pub mod Examples
