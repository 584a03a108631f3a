pub mod Session
pub mod Place
pub mod Kinds
pub mod Happened
pub mod Arrive
pub mod Centre
pub mod Run
pub mod Image
