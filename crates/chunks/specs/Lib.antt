-- What a reader must believe of pieces.
pub mod Pieces
