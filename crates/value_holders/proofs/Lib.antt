pub mod Tests
pub mod Later
pub mod Events
pub mod VersionSteps
pub mod Steps
pub mod Spared
pub mod Readers
