pub mod Cuts
mod Hands
