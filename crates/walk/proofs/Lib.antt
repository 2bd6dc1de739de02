pub mod Trees
pub mod Cells
pub mod WaitingUnits
pub mod Opening
pub mod Forecasts
