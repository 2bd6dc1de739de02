pub mod Trees
pub mod Heads
pub mod Zeros
pub mod Shows
pub mod FulfilledTables
pub mod BreachedTables
pub mod RunningTables
pub mod Times
