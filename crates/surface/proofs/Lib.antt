pub mod Counts
pub mod Quotients
mod Undone
pub mod Verdicts
