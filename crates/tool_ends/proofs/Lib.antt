pub mod Pieces
pub mod CsvText
pub mod Plain
pub mod ToolColumns
