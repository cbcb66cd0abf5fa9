pub mod PassingKinds
pub mod PassingLaw
