pub mod Gathered
pub mod Replay
pub mod Wanted
