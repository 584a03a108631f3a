pub mod Live
pub mod Recorded
