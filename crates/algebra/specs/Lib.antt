pub mod Frac
pub mod Sums
