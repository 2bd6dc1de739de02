pub mod Tree
pub mod Ahead
