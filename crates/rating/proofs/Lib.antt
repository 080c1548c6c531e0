pub mod Asked
pub mod Ranges
pub mod Replayed
pub mod Runs
