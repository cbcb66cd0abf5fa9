pub mod Ports
pub mod Wires
pub mod UpdateLaws
pub mod Phases
pub mod Examples
