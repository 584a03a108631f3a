pub mod Groups
pub mod Code
