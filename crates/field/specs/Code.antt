pub mod Told
pub mod At
pub mod Into
pub mod Read
pub mod Extent
pub mod Item
pub mod Lent
pub mod Feed
