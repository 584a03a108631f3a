pub mod Entry
pub mod Queue
pub mod Store
pub mod Calls
pub mod Run
pub mod HostRun
pub mod Code
