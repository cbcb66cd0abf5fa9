pub mod Leaves
pub mod Sees
pub mod SameTurn
pub mod Slots
pub mod Lost
pub mod Law
