mod LiveLemmas
pub mod SlotLemmas
