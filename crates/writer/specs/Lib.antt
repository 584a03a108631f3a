pub mod Write
pub mod code
