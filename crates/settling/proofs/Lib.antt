pub mod Settled
pub mod Units
