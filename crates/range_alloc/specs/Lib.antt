pub mod Ranges
pub mod Joins
pub mod RangeSets
pub mod Nodes
