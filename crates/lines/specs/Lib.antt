pub mod Lines
pub mod Means
pub mod Turn
pub mod Prints
pub mod Runs
pub mod Code
