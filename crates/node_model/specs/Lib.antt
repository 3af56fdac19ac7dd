pub mod Handling
pub mod Nodes
