pub mod Puts
pub mod Decimal
