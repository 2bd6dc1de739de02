mod Options
mod Raw
pub mod Values
mod Fitting
