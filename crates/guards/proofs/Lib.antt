pub mod Walks
mod Guarding
mod Wide
pub mod Bodies
mod Filling
