pub mod Cells
pub mod Blames
pub mod Units
