pub mod Judged
pub mod Made
