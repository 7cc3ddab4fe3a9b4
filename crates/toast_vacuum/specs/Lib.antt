pub mod Ops
pub mod Vacuums
pub mod Machines
pub mod Targets
pub mod Lawful
pub mod Holds
pub mod Laws
