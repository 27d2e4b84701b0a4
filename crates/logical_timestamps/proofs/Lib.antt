pub mod Timestamps
pub mod Places
pub mod Stored
pub mod Writing
pub mod Last
