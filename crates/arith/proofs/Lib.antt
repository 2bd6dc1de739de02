-- What the proofs of several crates use.
pub mod Ints
pub mod Numbers
pub mod Quotients
pub mod Lists
pub mod Conds
pub mod Ranges
