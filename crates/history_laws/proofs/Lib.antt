pub mod Answered
pub mod Counted
pub mod AnswersKept
pub mod Settled
pub mod OrderKept
pub mod StandsKept
pub mod Ends
pub mod AddsUp
