pub mod CountLemmas
pub mod EntryLemmas
pub mod FrontLemmas
pub mod HexLemmas
pub mod HistoryLemmas
