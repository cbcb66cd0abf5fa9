pub mod Ports
pub mod OnePort
pub mod UnionPorts
pub mod StreamPorts
