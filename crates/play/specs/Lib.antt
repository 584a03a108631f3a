pub mod Play
pub mod Centre
