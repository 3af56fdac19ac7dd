mod ClockLemmas
pub mod RanLemmas
mod AnswerLemmas
pub mod TurnLemmas
mod AlikeLemmas
mod StepLemmas
mod PollLemmas
mod IssueLemmas
mod HandLemmas
mod OnceLemmas
mod BreakLemmas
mod DriveLemmas
