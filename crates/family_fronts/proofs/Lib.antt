pub mod Cuts
pub mod OneAnswer
pub mod SelectSchema
pub mod SourceLaw
pub mod UnionLaw
pub mod FrontsLaw
