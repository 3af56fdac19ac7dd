pub mod PlaceLemmas
pub mod RowLemmas
pub mod HitLemmas
pub mod SelectLemmas
pub mod LawLemmas
