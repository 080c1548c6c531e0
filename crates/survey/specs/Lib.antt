pub mod Extents
pub mod Surveys
pub mod Texts
