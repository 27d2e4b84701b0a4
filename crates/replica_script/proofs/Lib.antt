pub mod Faults
pub mod SourceWords
pub mod DistinctSources
pub mod ReadBack
pub mod Answered
pub mod Runs
pub mod Versions
