pub mod Answers
pub mod Asked
pub mod Outcomes
pub mod Errors
pub mod Runs
