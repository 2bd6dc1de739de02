pub mod Reduces
pub mod Tallies
