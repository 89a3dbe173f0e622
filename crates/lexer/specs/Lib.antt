pub mod Pieces
pub mod Numerals
