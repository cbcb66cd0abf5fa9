pub mod Slots
pub mod Lends
pub mod SlotMapLends
pub mod SecondaryMapLends
