pub mod Naming
pub mod Sets
pub mod Listed
pub mod OneList
pub mod RowTexts
