-- Definitions that the contracts of src/ cite.
pub mod Found
pub mod QueryDocuments
