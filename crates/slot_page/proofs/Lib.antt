mod Lookups
mod Rooms
pub mod Tids
mod Searches
pub mod Pages
mod Fits
mod Kept
mod Puts
pub mod Loops
pub mod Gathered
pub mod NextItems
