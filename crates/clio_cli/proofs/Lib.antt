pub mod WordLemmas
pub mod EndLemmas
pub mod RunLemmas
pub mod RunsLemmas
pub mod ServeLemmas
