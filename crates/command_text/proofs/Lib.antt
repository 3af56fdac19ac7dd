pub mod OutputLemmas
pub mod InputLemmas
pub mod TextEndLemmas
pub mod SuitedLemmas
pub mod HeadlineLemmas
pub mod WorkLemmas
pub mod ServeLemmas
