-- What is promised, from lanes and loads up to runs.
pub mod Lanes
pub mod Effects
pub mod Winners
pub mod Facts
pub mod Parts
pub mod Turns
pub mod Figures
pub mod Runs
pub mod Permits
