pub mod IntLaws
pub mod Ring
pub mod Frac
pub mod Round
pub mod Sums
