pub mod Status
pub mod Outputs
pub mod Streams
pub mod TextEnds
pub mod Suited
pub mod Headline
pub mod Working
pub mod Serving
