pub mod Stages
pub mod Views
pub mod Heads
pub mod Pipes
pub mod States
pub mod Samples
pub mod Lines
