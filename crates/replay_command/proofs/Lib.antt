pub mod StepLemmas
pub mod GatherLemmas
pub mod ReplayLemmas
pub mod JudgeLemmas
pub mod ServeLemmas
