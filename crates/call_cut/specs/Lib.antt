pub mod Fills
pub mod Came
pub mod Taking
pub mod Ends
