pub mod Cores
pub mod Taken
