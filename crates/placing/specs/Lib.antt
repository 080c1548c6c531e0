pub mod Kind
pub mod Placing
pub mod Steps
pub mod Mirrors
pub mod Loaded
