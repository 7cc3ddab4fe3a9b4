pub mod Spans
pub mod Reads
pub mod Handles
