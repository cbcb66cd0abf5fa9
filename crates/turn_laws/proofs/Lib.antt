pub mod Kept
pub mod Long
pub mod Sends
pub mod Turned
pub mod KeptLaws
pub mod Making
pub mod Ending
pub mod OwnLaws
