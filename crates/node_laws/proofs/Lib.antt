pub mod Replies
pub mod Window
pub mod SpanKept
pub mod Retained
pub mod LocksKept
pub mod SoundStates
pub mod JunkDropped
