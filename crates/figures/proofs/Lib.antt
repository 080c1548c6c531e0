pub mod Tested
pub mod Listing
