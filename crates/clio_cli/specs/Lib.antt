pub mod Words
pub mod Run
pub mod Succeeds
pub mod Runs
pub mod Wanted
