pub mod At
pub mod Items
