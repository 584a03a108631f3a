pub mod Stands
pub mod Known
pub mod Read
pub mod KeyKinds
pub mod Looked
