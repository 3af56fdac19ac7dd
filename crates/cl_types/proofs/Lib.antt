pub mod HomeLemmas
pub mod PlaceLemmas
pub mod RangeLemmas
pub mod PutBytes
