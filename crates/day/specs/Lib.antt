pub mod Lines
pub mod Turn
pub mod Enrolments
pub mod Day
pub mod Replay
pub mod Code
