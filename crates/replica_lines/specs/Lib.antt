pub mod Replies
pub mod Events
pub mod Histories
pub mod Status
