pub mod Held
pub mod Axles
pub mod Peaks
pub mod Grids
pub mod Filled
