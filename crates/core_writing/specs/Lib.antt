pub mod Begins
pub mod Stops
