pub mod Progress
pub mod Unique
