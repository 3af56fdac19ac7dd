pub mod Placed
pub mod Keeping
pub mod Fields
pub mod Parted
pub mod Stores
