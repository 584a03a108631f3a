pub mod Rank
pub mod Slots
