pub mod Stations
pub mod Rows
pub mod Answers
pub mod Table
pub mod Columns
pub mod Lent
pub mod Code
