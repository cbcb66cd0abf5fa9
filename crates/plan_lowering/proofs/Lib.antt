pub mod StepLemmas
pub mod Arenas
pub mod Nodes
pub mod Several
pub mod Caches
pub mod Entries
pub mod WholePlans
pub mod Readers
