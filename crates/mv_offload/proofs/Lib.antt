pub mod PlaceLemmas
pub mod HeldLemmas
pub mod StoreLemmas
pub mod EffectLemmas
pub mod CallLemmas
pub mod LawLemmas
