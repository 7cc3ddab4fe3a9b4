pub mod Places
pub mod RunningLists
pub mod Numbers
pub mod Events
pub mod Ascending
pub mod Members
pub mod Pushed
