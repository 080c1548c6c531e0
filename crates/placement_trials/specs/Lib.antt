pub mod HandMade
