pub mod Ready
pub mod Now
