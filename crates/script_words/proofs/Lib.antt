pub mod Counted
pub mod Cuts
pub mod Digits
pub mod Places
pub mod Spelled
pub mod Steps
