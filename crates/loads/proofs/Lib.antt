pub mod Each
pub mod Counts
pub mod Axles
pub mod Pairing
pub mod Choosing
pub mod Wheels
pub mod Deck
