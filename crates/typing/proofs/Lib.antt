pub mod Exprs
pub mod Sights
pub mod Instances
pub mod Typings
pub mod Templates
