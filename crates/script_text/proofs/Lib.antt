pub mod Counts
pub mod Proved
pub mod Rooms
pub mod Rules
pub mod Steps
pub mod Suited
