pub mod NumberLemmas
pub mod PlaceLemmas
pub mod ReaderLemmas
pub mod WriterLemmas
