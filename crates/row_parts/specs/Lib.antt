pub mod Listing
pub mod Ranges
