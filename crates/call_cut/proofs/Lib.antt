pub mod PieceLemmas
pub mod Buffers
pub mod Takings
pub mod Endings
pub mod Cuts
