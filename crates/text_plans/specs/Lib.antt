pub mod QueryPlans
pub mod Examples
pub mod Arenas
pub mod FoundTables
