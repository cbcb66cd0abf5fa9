pub mod Trying
pub mod Laws
pub mod Chains
