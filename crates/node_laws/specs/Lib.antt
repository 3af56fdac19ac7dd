pub mod Span
pub mod Retained
pub mod Locks
pub mod RepliesFit
pub mod Junk
