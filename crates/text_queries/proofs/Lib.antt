-- Lemmas of the crate.
pub mod Examples
pub mod Greatest
