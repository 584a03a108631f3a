pub mod Rows
pub mod Wholes
pub mod Heads
pub mod Values
pub mod Many
pub mod Pieces
pub mod NoShorter
