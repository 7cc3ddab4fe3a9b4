pub mod Advanced
pub mod Laws
