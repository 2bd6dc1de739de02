pub mod Index
pub mod Kinds
pub mod TypedValues
