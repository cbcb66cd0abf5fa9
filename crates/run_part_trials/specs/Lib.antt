pub mod Answers
pub mod Tested
