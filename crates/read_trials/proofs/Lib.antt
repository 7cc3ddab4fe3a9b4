mod Passing
mod Puts
mod Reading
