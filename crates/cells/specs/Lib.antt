pub mod Evaluate
pub mod Reduce
pub mod Across
pub mod Tables
pub mod Sights
pub mod Ahead
