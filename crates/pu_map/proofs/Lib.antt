pub mod ChainLemmas
pub mod LinkLemmas
pub mod SketchLemmas
pub mod CacheLemmas
pub mod CachedFuncLemmas
pub mod TriedLemmas
