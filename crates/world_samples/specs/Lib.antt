pub mod GroupRun
pub mod MapRun
pub mod SmallWorlds
