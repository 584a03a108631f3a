pub mod Framing
pub mod Lending
pub mod Answers
pub mod Settled
