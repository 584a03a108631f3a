pub mod Framed
pub mod Code
