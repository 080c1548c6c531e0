-- Doubts of the definitions under the promise, answered.
pub mod Exact
pub mod Mixed
pub mod Rivals
pub mod Allowance
pub mod Mirrors
pub mod Causes
pub mod Changes
pub mod Winners
pub mod Determined
