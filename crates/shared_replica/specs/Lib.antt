pub mod History
pub mod Passes
pub mod Faults
pub mod Preparing
pub mod Closing
pub mod Spare
pub mod Naming
pub mod Drafts
