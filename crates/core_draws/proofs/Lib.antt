pub mod Counts
pub mod Uses
pub mod Owed
pub mod Lines
pub mod Steps
pub mod Proved
