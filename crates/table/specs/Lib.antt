-- The format of a table, and what the contracts say of reading it.
pub mod Cells
pub mod Lines
pub mod Numbers
pub mod Tables
pub mod Told
pub mod Unique
