-- Lemmas on the trial decks.
pub mod Tandem
pub mod Computed
pub mod Winners
pub mod Decks
