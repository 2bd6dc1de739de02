-- What the proofs of several crates use.
pub mod Members
pub mod Masks
pub mod Counts
pub mod Typed
