pub mod Characters
pub mod Levels
pub mod Prefixes
pub mod Rows
pub mod Tables
pub mod Weights
