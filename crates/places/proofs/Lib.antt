pub mod Found
pub mod Sights
pub mod Steps
pub mod Descents
