pub mod Verdicts
pub mod Told
