pub mod Spelling
pub mod Reading
pub mod Views
pub mod Standing
pub mod Placed
pub mod Steps
pub mod Laws
