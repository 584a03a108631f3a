pub mod Steady
pub mod RoundTrip
pub mod Played
