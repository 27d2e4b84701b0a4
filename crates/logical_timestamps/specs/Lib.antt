pub mod Timestamps
pub mod Writers
