pub mod TableSteps
pub mod Entries
pub mod NodeSteps
