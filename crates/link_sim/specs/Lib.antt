pub mod LinkFrames
pub mod Got
pub mod Fields
