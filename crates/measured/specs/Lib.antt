pub mod Laid
pub mod Spread
pub mod Spreading
pub mod Rows
pub mod Mixes
pub mod Judged
