pub mod Flights
pub mod Rules
pub mod Fields
pub mod Slots
pub mod Walks
