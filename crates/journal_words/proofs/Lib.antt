pub mod AsciiLemmas
pub mod SpanLaws
pub mod SourceCount
mod OnePassLemmas
