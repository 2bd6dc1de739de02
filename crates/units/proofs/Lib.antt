pub mod Tests
pub mod Cells
pub mod Blames
pub mod Units
pub mod Waits
