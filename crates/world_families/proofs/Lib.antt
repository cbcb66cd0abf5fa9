pub mod Members
pub mod SourceExamples
pub mod UnionExamples
pub mod ZipExamples
pub mod KeeperExamples
pub mod GroupExamples
pub mod JoinExamples
pub mod OnwardExamples
