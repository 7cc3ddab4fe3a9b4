pub mod Coming
pub mod Granted
pub mod Staying
pub mod Failing
pub mod Advancing
pub mod Proved
