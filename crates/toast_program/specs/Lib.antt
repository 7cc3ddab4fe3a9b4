pub mod Makes
pub mod Runs
