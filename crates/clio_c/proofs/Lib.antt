mod IssueLemmas
pub mod Values
