pub mod Stamps
pub mod Holders
pub mod Laws
