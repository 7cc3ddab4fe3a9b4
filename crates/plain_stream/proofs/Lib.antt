pub mod Following
pub mod Rest
pub mod Widths
