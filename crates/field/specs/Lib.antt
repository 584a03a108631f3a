pub mod Kind
pub mod Version
pub mod Judge
pub mod Cell
pub mod Code
