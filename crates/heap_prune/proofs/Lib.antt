mod Gathering
pub mod Events
