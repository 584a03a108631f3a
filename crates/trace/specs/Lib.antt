pub mod Record
pub mod Write
pub mod Trace
