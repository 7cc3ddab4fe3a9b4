pub mod Lines
pub mod Prunes
