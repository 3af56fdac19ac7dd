pub mod LineLemmas
pub mod RoundLemmas
pub mod SettlingLemmas
pub mod SuitLemmas
