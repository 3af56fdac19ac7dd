pub mod Calls
pub mod Rows
pub mod WaitLists
pub mod Fields
