pub mod Image
pub mod Taken
