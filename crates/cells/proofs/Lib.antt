pub mod Unfolds
pub mod Sights
pub mod Wide
