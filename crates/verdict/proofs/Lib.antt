pub mod Chains
pub mod One
pub mod Records
pub mod Stages
