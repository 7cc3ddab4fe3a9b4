pub mod Slots
pub mod Lends
pub mod Tids
pub mod Pages
pub mod Marks
pub mod DeadSlots
pub mod NextItems
