pub mod Beyond
pub mod Kinds
