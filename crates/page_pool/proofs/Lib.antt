pub mod Parts
pub mod Zeros
pub mod Filling
