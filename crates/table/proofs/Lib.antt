-- Lemmas on fields, records and numbers; the public ones serve what is built on tables.
pub mod Chains
pub mod Cuts
mod FirstPass
mod Fronts
pub mod Numerals
pub mod SecondPass
mod Tables
mod Turns
