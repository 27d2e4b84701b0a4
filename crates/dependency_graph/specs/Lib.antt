pub mod Graphs
pub mod Chains
pub mod Kept
pub mod Ready
pub mod Held
