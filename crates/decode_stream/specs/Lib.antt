pub mod Decoding
pub mod States
pub mod Steps
pub mod Rows
pub mod Parts
pub mod Growing
pub mod Messages
pub mod Laws
