pub mod Asked
pub mod Made
pub mod Plain
pub mod Reach
