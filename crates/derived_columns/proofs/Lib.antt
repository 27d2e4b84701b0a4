pub mod Joined
pub mod Each
pub mod Filed
pub mod HiddenLaws
pub mod KeyLaws
pub mod Untouched
