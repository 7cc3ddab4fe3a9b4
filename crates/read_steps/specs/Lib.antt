pub mod Columns
pub mod Reads
pub mod Sound
pub mod Fetched
