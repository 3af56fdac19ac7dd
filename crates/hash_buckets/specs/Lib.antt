pub mod PageMap
pub mod Slots
