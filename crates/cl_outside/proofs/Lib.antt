pub mod FrontLemmas
pub mod ToldLemmas
