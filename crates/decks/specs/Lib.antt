-- The trial decks.
pub mod Decks
