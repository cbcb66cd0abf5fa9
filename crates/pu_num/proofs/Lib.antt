-- Lemmas that this crate's proofs share.
mod Rounding
