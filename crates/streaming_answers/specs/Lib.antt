pub mod NoMaps
