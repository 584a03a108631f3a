pub mod Example
pub mod Starred
