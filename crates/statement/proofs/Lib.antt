-- Lemmas behind the statement; the public ones serve what is built on it.
pub mod Effects
pub mod Found
pub mod Cuts
pub mod Numbered
pub mod Parts
pub mod Wins
pub mod Owners
pub mod Turns
pub mod Figures
pub mod Runs
pub mod Permits
pub mod Low
