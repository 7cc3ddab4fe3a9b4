mod Padding
pub mod Holders
