pub mod OwnedLemmas
pub mod ToldLemmas
