pub mod States
pub mod Applies
