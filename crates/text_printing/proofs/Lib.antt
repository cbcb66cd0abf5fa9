-- Lemmas of the crate.
pub mod Lists
