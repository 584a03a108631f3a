pub mod Packed
pub mod Messages
pub mod Sessions
pub mod Queues
pub mod Traces
pub mod Code
