pub mod Bucket
pub mod Tables
pub mod Loads
pub mod Calls
