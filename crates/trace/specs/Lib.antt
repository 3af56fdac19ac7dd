pub mod Account
pub mod Clients
pub mod Events
pub mod Properties
pub mod Summaries
pub mod Schedules
pub mod HistoryLaws
