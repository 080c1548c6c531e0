pub mod Blank
pub mod Runs
