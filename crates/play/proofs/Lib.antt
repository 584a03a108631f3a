pub mod Crediting
pub mod Arriving
pub mod Playing
pub mod Framing
pub mod Settled
