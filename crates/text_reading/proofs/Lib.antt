-- Lemmas of the crate.
pub mod Chains
pub mod ChainSteps
pub mod Listing
pub mod LeafForms
pub mod Primaries
pub mod Integers
pub mod EntryForms
pub mod StageForms
pub mod ExprSteps
pub mod QueryForms
