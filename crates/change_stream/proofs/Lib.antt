pub mod Columns
pub mod Sending
pub mod Holding
pub mod Granted
pub mod Committing
pub mod Telling
pub mod InRange
pub mod Within
