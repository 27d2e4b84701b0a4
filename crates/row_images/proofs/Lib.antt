pub mod Numerals
pub mod Counts
pub mod Cuts
pub mod PartLaws
pub mod ValueLaws
pub mod AsciiLemmas
pub mod LowerDigits
pub mod ImageLaws
pub mod ImageSteps
pub mod RowLaws
pub mod Equal
pub mod Passes
mod FewDigits
mod Ranks
mod Lanes
mod FirstValue
