pub mod LastTables
