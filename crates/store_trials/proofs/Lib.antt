mod Assigned
mod Puts
mod Readers
