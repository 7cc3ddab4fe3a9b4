pub mod Commands
pub mod Forms
pub mod Scripts
pub mod Drafts
pub mod Faults
pub mod Laws
