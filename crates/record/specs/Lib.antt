pub mod Record
pub mod Says
pub mod Fits
pub mod Written
pub mod Reading
pub mod Meant
pub mod Lent
pub mod Code
