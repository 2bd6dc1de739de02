pub mod Settles
pub mod Before
