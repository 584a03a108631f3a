pub mod Short
pub mod Turn
pub mod Run
pub mod Table
