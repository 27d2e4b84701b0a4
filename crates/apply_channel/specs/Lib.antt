pub mod Channels
pub mod Slots
pub mod Kept
pub mod Full
