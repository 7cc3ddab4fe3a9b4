pub mod Xacts
pub mod Versions
