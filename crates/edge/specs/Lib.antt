pub mod Edges
pub mod Judged
