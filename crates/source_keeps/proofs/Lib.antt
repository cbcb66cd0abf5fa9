pub mod SourceKeeps
pub mod SourceOpens
