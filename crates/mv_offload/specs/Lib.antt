pub mod Versions
pub mod Layout
pub mod Stored
pub mod Laws
