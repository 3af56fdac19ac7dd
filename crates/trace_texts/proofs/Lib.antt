pub mod ReadSchedules
