pub mod Meaning
pub mod Texts
pub mod Made
pub mod Turns
pub mod Straddle
pub mod Running
pub mod Printing
pub mod Settled
