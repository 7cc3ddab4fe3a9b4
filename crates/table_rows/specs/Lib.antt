pub mod Worlds
pub mod Steps
pub mod Views
pub mod Laws
