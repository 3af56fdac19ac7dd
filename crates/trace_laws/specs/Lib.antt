pub mod NodeLines
pub mod Times
pub mod Runs
pub mod Window
pub mod Spelled
