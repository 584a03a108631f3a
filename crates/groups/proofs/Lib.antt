pub mod Ways
pub mod Reading
pub mod Writing
pub mod Inverse
pub mod Goes
pub mod Examples
