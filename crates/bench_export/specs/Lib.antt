pub mod Meetings
pub mod Nestings
pub mod Sheets
pub mod Telling
pub mod Pairs
pub mod Paths
