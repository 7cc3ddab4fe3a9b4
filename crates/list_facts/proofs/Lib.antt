pub mod Changed
pub mod Members
