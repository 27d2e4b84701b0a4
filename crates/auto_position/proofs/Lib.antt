pub mod Planning
pub mod Asked
pub mod OneSource
