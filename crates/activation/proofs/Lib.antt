pub mod Arguments
pub mod Walks
pub mod Recursion
