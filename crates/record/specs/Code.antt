pub mod Places
pub mod Most
