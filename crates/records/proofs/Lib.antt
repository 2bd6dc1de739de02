pub mod Index
pub mod Listed
pub mod Trees
mod TypedValues
pub mod Units
