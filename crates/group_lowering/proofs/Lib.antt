pub mod ApartLemmas
pub mod GroupLemmas
pub mod DistinctLemmas
pub mod ConditionLemmas
pub mod NamedLemmas
