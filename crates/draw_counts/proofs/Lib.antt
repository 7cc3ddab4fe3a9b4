pub mod Pushes
pub mod Tables
pub mod Proved
