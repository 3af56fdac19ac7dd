pub mod ReadSchedules
pub mod Transcripts
