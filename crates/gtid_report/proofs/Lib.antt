pub mod AnswerLemmas
pub mod ImageLemmas
pub mod ShownRows
pub mod AssumedLemmas
