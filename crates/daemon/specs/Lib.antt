pub mod Networks
pub mod Turns
pub mod Counts
pub mod Service
