pub mod Sight
pub mod Locate
