pub mod SlotLemmas
pub mod WalkLemmas
pub mod Places
pub mod Flying
pub mod Sound
pub mod Dues
pub mod Made
