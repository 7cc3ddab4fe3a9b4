pub mod Places
pub mod Settles
pub mod Acts
pub mod Lefts
