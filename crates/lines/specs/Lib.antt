pub mod Text
pub mod Lines
pub mod Put
pub mod Shown
