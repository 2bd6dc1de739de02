pub mod Masks
pub mod Counts
