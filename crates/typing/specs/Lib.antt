pub mod Types
pub mod Clauses
