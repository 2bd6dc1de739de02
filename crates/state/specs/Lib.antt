pub mod Tree
pub mod Shown
