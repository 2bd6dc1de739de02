pub mod Advances
pub mod Few
pub mod Main
pub mod Tabled
