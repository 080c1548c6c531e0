pub mod Headers
pub mod Stations
pub mod Underway
