pub mod Outside
pub mod Memory
pub mod Csv
pub mod ToolAnswers
pub mod ToolLaws
