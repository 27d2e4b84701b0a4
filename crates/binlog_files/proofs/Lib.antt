pub mod TableLaws
pub mod Telling
pub mod Numbered
pub mod Running
pub mod Wholes
pub mod Filed
