pub mod Each
pub mod Columns
pub mod Compared
pub mod Images
pub mod Faults
pub mod Tables
pub mod Entries
pub mod Laws
