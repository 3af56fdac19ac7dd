pub mod Operations
pub mod Held
pub mod Laws
