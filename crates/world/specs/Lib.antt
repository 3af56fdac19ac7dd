pub mod Worlds
pub mod Follows
pub mod Running
pub mod Fields
pub mod Saying
pub mod Summed
