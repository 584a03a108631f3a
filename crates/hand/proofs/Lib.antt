pub mod Parts
pub mod Following
pub mod Streams
