-- What a script prints, and which duty it leaves.
pub mod Runs
pub mod Left
pub mod Scripts
