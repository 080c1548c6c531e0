-- Calls, causes, steps, and what a fault tells.
pub mod Ample
pub mod Told
pub mod Bounds
pub mod Steps
