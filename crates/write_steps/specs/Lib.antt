pub mod Dropped
pub mod Writes
pub mod Standing
pub mod Steps
