pub mod Cells
pub mod Reduces
pub mod Counts
