mod Parts
mod Sorted
pub mod Entries
mod KeyMaps
pub mod Events
pub mod Sizes
pub mod Seen
pub mod Histories
