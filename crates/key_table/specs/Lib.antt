pub mod Slots
pub mod Strays
pub mod Reached
pub mod Tables
pub mod Opened
