pub mod Written
pub mod Counts
pub mod Listing
pub mod Runs
pub mod Spacing
