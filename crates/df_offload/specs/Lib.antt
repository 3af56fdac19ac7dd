pub mod Rows
pub mod Layout
pub mod Stored
pub mod Laws
