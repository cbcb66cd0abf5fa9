pub mod SlotLists
pub mod Kept
