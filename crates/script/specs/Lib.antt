-- A script by its records: words, turns, opening, calls, stations, and the parts that they make.
pub mod Calls
pub mod Edges
pub mod Entries
pub mod Faults
pub mod Lines
pub mod Parts
pub mod Rest
pub mod Scripts
pub mod Stations
pub mod Tails
pub mod Turns
pub mod Words
