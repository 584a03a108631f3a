pub mod Parts
pub mod Meter
