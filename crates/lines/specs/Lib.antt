pub mod Segments
pub mod Lines
pub mod Areas
pub mod Axles
pub mod Facts
