pub mod Fronts
pub mod HistoryGrammar
pub mod Statuses
pub mod Word
