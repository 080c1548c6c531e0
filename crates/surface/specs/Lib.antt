pub mod Shape
pub mod Stations
pub mod Asked
pub mod Rising
pub mod Turns
pub mod Undone
pub mod Told
pub mod Verdict
