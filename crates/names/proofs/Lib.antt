pub mod Same
pub mod Places
pub mod ByNumber
pub mod Arms
pub mod Parts
