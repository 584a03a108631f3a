pub mod Identifier
pub mod Answers
pub mod Format
pub mod Used
