pub mod Valid
pub mod Answers
pub mod Held
pub mod Entries
pub mod Rows
pub mod Fields
pub mod Polls
pub mod Typed
