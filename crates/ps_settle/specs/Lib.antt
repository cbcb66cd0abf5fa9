pub mod Standings
pub mod Sweeps
