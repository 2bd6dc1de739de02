pub mod Taking
pub mod Opened
pub mod Serving
pub mod Begun
pub mod Session
