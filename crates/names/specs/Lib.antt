pub mod Names
pub mod code
