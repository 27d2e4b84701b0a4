pub mod OwnLemmas
pub mod CopyLemmas
