pub mod Says
pub mod Fits
pub mod Written
