pub mod Unions
pub mod Merges
pub mod Touching
