pub mod Ranges
pub mod Sealing
