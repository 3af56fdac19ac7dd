pub mod CopyLemmas
pub mod IssueLemmas
