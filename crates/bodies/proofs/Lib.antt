pub mod Values
pub mod Worth
pub mod Bytes
pub mod Readers
pub mod Commands
pub mod Whole
pub mod Downlinks
