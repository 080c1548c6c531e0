pub mod Lent
pub mod Figures
