pub mod Steady
pub mod Pieces
