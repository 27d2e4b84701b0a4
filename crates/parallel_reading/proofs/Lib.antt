pub mod Come
pub mod Pieces
