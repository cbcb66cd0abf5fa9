pub mod SinkPieces
pub mod PieceKinds
pub mod PieceResults
