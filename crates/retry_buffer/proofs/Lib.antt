pub mod Names
pub mod Records
pub mod Turns
pub mod Places
pub mod Links
pub mod Chained
pub mod Noting
pub mod Looks
