pub mod HostLemmas
pub mod ShortLemmas
pub mod LawLemmas
