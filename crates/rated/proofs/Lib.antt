pub mod Decks
pub mod Tables
pub mod Pairs
