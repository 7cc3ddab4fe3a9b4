pub mod Modes
pub mod Held
pub mod Locks
