pub mod Exprs
pub mod Clauses
pub mod Bodies
