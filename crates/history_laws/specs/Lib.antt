pub mod Histories
pub mod Ends
