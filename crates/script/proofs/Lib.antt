pub mod Following
pub mod Numbered
pub mod Reading
pub mod Saying
pub mod Splits
pub mod Surface
pub mod Telling
pub mod Turning
