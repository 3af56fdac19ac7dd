pub mod Layout
pub mod Links
pub mod Stored
pub mod Found
