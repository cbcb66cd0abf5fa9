pub mod OfWorlds
pub mod SmallWorlds
