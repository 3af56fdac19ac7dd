pub mod ClientLines
pub mod Readiness
pub mod Flights
pub mod Following
pub mod JunkHeard
