pub mod Ratings
pub mod Texts
