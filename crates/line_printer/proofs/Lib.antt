pub mod Carries
pub mod Digits
