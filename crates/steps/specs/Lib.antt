pub mod Called
pub mod Code
