pub mod Putting
pub mod Bodies
pub mod Fields
pub mod Payloads
pub mod Framing
pub mod Kept
