pub mod Shares
pub mod Merging
pub mod Apart
