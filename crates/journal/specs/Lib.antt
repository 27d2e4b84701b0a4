pub mod Writing
pub mod Journals
pub mod Faults
pub mod Edges
