pub mod Low
pub mod Put
