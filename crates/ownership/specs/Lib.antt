pub mod Ownership
pub mod Slots
