pub mod Looks
pub mod There
pub mod Changed
