pub mod Pushed
pub mod Largest
pub mod Kept
