pub mod Says
pub mod Shows
pub mod Tells
