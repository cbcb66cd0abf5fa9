-- Lemmas that this crate's proofs share.
mod Carryless
mod Hashes
