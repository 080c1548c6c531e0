pub mod Lanes
pub mod Owners
pub mod Weights
pub mod Tandems
pub mod Facts
