pub mod Fields
pub mod Record
pub mod Reading
pub mod Code
