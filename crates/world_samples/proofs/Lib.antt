pub mod GroupRunSteps
pub mod MapRunSteps
pub mod Spared
