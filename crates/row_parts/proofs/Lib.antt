pub mod Apart
pub mod Steps
pub mod Cutting
pub mod Whole
