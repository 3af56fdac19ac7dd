pub mod Buffers
pub mod Pieces
